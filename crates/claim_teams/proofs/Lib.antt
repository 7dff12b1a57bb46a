mod Counting
mod Working
