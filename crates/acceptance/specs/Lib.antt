-- What a reader has to believe, and the sets that words leave behind them.
pub mod Lasso
pub mod Contexts
