pub mod ShortClause
