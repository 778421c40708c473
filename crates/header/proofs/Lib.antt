pub mod Rate
