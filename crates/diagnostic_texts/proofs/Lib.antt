mod Joined
mod Found
