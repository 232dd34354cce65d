mod Copying
mod Pictures
mod Stores
