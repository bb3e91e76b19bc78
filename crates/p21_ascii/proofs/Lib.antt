mod Bytes
mod Numbers
mod Tokens
mod Values
mod Instances
mod Files
mod Laws
