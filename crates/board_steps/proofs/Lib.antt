mod Lists
mod Claiming
mod Dealing
mod Looking
mod Running
mod Tables
