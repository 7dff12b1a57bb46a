mod Plain
mod Rows
mod Levels
mod Taken
mod Matched
mod Numbers
mod Flags
