mod FirstLine
mod Worked
