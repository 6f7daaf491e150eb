mod Gathered
mod Sharing
