mod Numbers
mod Pieces
mod Waiting
mod Writing
