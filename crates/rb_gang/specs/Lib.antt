pub use Rattle.rb_book.specs.Book
pub use Rattle.rb_graph.specs.Frame
pub mod Numbers
pub mod Claims
pub mod SeatCode
pub mod Shifts
