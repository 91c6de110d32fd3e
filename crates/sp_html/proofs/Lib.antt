pub mod EscapeLaws
mod MarkedRows
