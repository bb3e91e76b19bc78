mod Operands
