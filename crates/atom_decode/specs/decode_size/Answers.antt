-- What the code's answers mean: 01's number and the values of each case.
use Rattle.std.specs.Prelude.{Result, Ok, Err}
use Rattle.atom.specs.Parse.{Size, sized, bad_size}
use Rattle.atom_decode.specs.declared.ParseError.{ParseError}
use Rattle.atom_decode.specs.declared.decode_size.DecodedSize.{DecodedSize}
use Rattle.atom_decode.specs.Answers.{number}

abbrev pub decoded_size : Result DecodedSize ParseError → Size
decoded_size (Ok d) = sized d.offset d.size
decoded_size (Err e) = bad_size (number e)
