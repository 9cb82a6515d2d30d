mod Heights
mod Ranks
