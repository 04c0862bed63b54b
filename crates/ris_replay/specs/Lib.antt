pub mod Endings
pub mod Jobs
pub mod Playing
pub mod Program
pub mod Reports
pub mod RoundsView
pub mod Visits
