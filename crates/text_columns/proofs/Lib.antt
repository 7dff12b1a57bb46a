mod Cells
mod Joined
