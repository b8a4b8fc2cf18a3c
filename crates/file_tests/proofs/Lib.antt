mod Nop
