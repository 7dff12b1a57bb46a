-- The files of this folder.
pub mod Front
pub mod Laws
