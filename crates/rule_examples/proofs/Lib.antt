pub mod SourcelessPrograms
