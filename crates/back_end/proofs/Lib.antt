mod Chosen
mod Large
