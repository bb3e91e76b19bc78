mod Models
mod Told
