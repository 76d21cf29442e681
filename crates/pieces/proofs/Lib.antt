pub mod CutLaws
pub mod PointPieces
pub mod WordLaws
pub mod BuildLaws
pub mod PlanTurns
