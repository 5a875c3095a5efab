mod Literals
mod Numbers
