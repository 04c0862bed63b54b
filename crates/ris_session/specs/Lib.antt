pub mod PlayerView
