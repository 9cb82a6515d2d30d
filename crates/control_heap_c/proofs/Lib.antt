mod AsBox
mod Handing
mod ReadBack
mod Shutting
mod Stamping
