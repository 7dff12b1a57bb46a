mod Faults
mod Verdicts
