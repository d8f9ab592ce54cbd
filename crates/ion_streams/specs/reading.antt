-- How far documents were read.
pub mod Read
pub mod ReadState
pub mod Refilled
pub mod Reached
pub mod Courses
pub mod Telling
