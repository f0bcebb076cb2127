pub mod Dhcp
pub mod Png
pub mod Tftp
