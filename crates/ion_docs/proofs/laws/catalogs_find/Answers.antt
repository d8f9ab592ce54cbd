use Rattle.std.proofs.Common.{◌≡◌, ℕ, List, [], map, Ok, subst}
use Rattle.ion_docs.specs.Names.{AreApart, Denotes, IsCatalog, Limits, Table, Value, documents, shared_table}
use Rattle.ion_docs.specs.laws.Documents.{one_document}
use Rattle.ion_docs.proofs.Tables.{finds, finds_none, loaded_document}
use Rattle.ion_docs.proofs.laws.catalogs_find.Goals as goal

-- the values of the document describe the tables
described : (l : Limits) (octets : List ℕ) (tables : List Table) (s : List Value) → IsCatalog (documents [] l) octets (Ok tables) → Denotes [] l octets s
    → (map shared_table s ≡ map Ok tables) × AreApart [] tables
described l octets tables s h d =
    let document = loaded_document (documents [] l) octets tables h in
    (subst (λ (x : List Value). map shared_table x ≡ map Ok tables) (one_document [] l octets document.s s document.denoted d) document.each, document.apart)

pub returns : goal.returns
returns c = record {
  tables = λ l octets tables s h d name version t. let each = described l octets tables s h d in finds s tables each.0 each.1 name version t;
  no_others = λ l octets tables s h d name version never. let each = described l octets tables s h d in finds_none s tables each.0 each.1 name version never;
}
