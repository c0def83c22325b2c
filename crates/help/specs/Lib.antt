pub mod AskedHelp
