mod Parted
mod Reached
