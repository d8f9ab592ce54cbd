-- The words and the ranks of the thirteen kinds.
use Rattle.std.specs.Prelude.{ℕ, List, codes}
use Rattle.ion_atoms.specs.declared.kind.Kind.{Kind}

-- the octets of the word that the Ion specification has for a kind
abbrev pub kind_name : Kind → List ℕ
kind_name Kind.Null = codes "null"
kind_name Kind.Bool = codes "bool"
kind_name Kind.Int = codes "int"
kind_name Kind.Float = codes "float"
kind_name Kind.Decimal = codes "decimal"
kind_name Kind.Timestamp = codes "timestamp"
kind_name Kind.Symbol = codes "symbol"
kind_name Kind.Str = codes "string"
kind_name Kind.Clob = codes "clob"
kind_name Kind.Blob = codes "blob"
kind_name Kind.List = codes "list"
kind_name Kind.Sexp = codes "sexp"
kind_name Kind.Fields = codes "struct"

-- the place of a kind in the order of kinds
abbrev pub kind_rank : Kind → ℕ
kind_rank Kind.Null = 0
kind_rank Kind.Bool = 1
kind_rank Kind.Int = 2
kind_rank Kind.Float = 3
kind_rank Kind.Decimal = 4
kind_rank Kind.Timestamp = 5
kind_rank Kind.Symbol = 6
kind_rank Kind.Str = 7
kind_rank Kind.Clob = 8
kind_rank Kind.Blob = 9
kind_rank Kind.List = 10
kind_rank Kind.Sexp = 11
kind_rank Kind.Fields = 12
