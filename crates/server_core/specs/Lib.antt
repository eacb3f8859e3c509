pub mod PresentLink
