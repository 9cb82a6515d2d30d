-- What an object of the program is.
use Rattle.never_heap.specs.declared.object.Kind.{Kind}
use Rattle.never_heap.specs.declared.object.Kind.TheVariants as kinds
use Rattle.never_heap.specs.Graphs.{ObjectKind, Record, Array}

abbrev pub kind_of : Kind → ObjectKind
kind_of kinds.Record = Record
kind_of kinds.Array = Array
