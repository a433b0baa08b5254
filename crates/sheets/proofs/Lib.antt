pub mod RowTimesRatio
