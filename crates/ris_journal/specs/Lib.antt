pub mod JournalView
