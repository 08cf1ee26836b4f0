mod Copies
mod Names
