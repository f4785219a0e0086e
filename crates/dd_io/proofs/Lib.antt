-- Lemmas on transfers of many pieces.
pub mod Pieces
pub mod Examples
