pub mod Printed
pub mod Refused
pub mod Script
pub mod Session
pub mod Report
pub mod Dump
pub mod Steps
