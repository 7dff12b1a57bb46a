mod Cells
mod Told
mod Walked
