pub mod Attainable
