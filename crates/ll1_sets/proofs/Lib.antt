pub mod PredictSets
pub mod PredictionLists
pub mod TableLists
pub mod FrontMarks
