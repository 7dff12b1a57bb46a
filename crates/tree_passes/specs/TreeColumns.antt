-- The left parse that is given.
pub use Rattle.row_columns.specs.Numbers.{IsParseOf}
