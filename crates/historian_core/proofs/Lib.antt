mod Life
mod Readings
mod LongLines
mod ReportLaws
