-- What a desk has.
use Rattle.runs.specs.Book.{Book}
use Rattle.book.specs.Books.{book_of}
use Rattle.desk_book.specs.declared.desk.Desk.{Desk}
use Rattle.desk_book.specs.Loaded.{Bytes, bytes_of}

abbrev pub desk_book : Desk → Book
desk_book d = book_of d.book

abbrev pub desk_bytes : Desk → Bytes
desk_bytes d = bytes_of d.texts
