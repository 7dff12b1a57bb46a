mod Joining
mod NamesShown
mod Showing
