-- a text that was put at the front of a buffer
mod Placed
