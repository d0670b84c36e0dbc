pub mod DeskStates
