mod Ascii
