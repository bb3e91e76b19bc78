-- The reserved words, and what a word is (ISO 10303-11:1994, 7.2 and 7.4).
use Rattle.std.specs.Prelude.{ℕ, List, [], ◌∷◌, codes, if◌then◌else◌}
use Rattle.std.specs.Str.{str_eq_ignore_ascii_case}
use Rattle.ex_tree.specs.declared.kind.TokenKind.{TokenKind}
use Rattle.ex_tree.specs.declared.kind.TokenKind.TheVariants as k

-- a word in upper case, and its kind
abbrev pub Row : Type 0
Row = List ℕ × TokenKind

unfoldable pub reserved : List Row
reserved =
    (codes "ABS", k.Abs) ∷
    (codes "ABSTRACT", k.Abstract) ∷
    (codes "ACOS", k.Acos) ∷
    (codes "AGGREGATE", k.Aggregate) ∷
    (codes "ALIAS", k.Alias) ∷
    (codes "AND", k.And) ∷
    (codes "ANDOR", k.AndOr) ∷
    (codes "ARRAY", k.Array) ∷
    (codes "ASIN", k.Asin) ∷
    (codes "ATAN", k.Atan) ∷
    (codes "BAG", k.Bag) ∷
    (codes "BEGIN", k.Begin) ∷
    (codes "BINARY", k.Binary) ∷
    (codes "BLENGTH", k.BLength) ∷
    (codes "BOOLEAN", k.Boolean) ∷
    (codes "BY", k.By) ∷
    (codes "CASE", k.Case) ∷
    (codes "CONSTANT", k.Constant) ∷
    (codes "CONST_E", k.ConstE) ∷
    (codes "COS", k.Cos) ∷
    (codes "DERIVE", k.Derive) ∷
    (codes "DIV", k.Div) ∷
    (codes "ELSE", k.Else) ∷
    (codes "END", k.End) ∷
    (codes "END_CASE", k.EndCase) ∷
    (codes "END_CONSTANT", k.EndConstant) ∷
    (codes "END_ENTITY", k.EndEntity) ∷
    (codes "END_FUNCTION", k.EndFunction) ∷
    (codes "END_IF", k.EndIf) ∷
    (codes "END_LOCAL", k.EndLocal) ∷
    (codes "END_REPEAT", k.EndRepeat) ∷
    (codes "END_RULE", k.EndRule) ∷
    (codes "END_SCHEMA", k.EndSchema) ∷
    (codes "END_TYPE", k.EndType) ∷
    (codes "ENTITY", k.Entity) ∷
    (codes "ENUMERATION", k.Enumeration) ∷
    (codes "ESCAPE", k.Escape) ∷
    (codes "EXISTS", k.Exists) ∷
    (codes "EXP", k.Exp) ∷
    (codes "FALSE", k.False) ∷
    (codes "FIXED", k.Fixed) ∷
    (codes "FOR", k.For) ∷
    (codes "FORMAT", k.Format) ∷
    (codes "FUNCTION", k.Function) ∷
    (codes "GENERIC", k.Generic) ∷
    (codes "HIBOUND", k.HiBound) ∷
    (codes "HIINDEX", k.HiIndex) ∷
    (codes "IF", k.If) ∷
    (codes "IN", k.In) ∷
    (codes "INSERT", k.Insert) ∷
    (codes "INTEGER", k.Integer) ∷
    (codes "INVERSE", k.Inverse) ∷
    (codes "LENGTH", k.Length) ∷
    (codes "LIKE", k.Like) ∷
    (codes "LIST", k.List) ∷
    (codes "LOBOUND", k.LoBound) ∷
    (codes "LOCAL", k.Local) ∷
    (codes "LOG", k.Log) ∷
    (codes "LOG10", k.Log10) ∷
    (codes "LOG2", k.Log2) ∷
    (codes "LOGICAL", k.Logical) ∷
    (codes "LOINDEX", k.LoIndex) ∷
    (codes "MOD", k.Mod) ∷
    (codes "NOT", k.Not) ∷
    (codes "NUMBER", k.Number) ∷
    (codes "NVL", k.Nvl) ∷
    (codes "ODD", k.Odd) ∷
    (codes "OF", k.Of) ∷
    (codes "ONEOF", k.OneOf) ∷
    (codes "OPTIONAL", k.Optional) ∷
    (codes "OR", k.Or) ∷
    (codes "OTHERWISE", k.Otherwise) ∷
    (codes "PI", k.Pi) ∷
    (codes "PROCEDURE", k.Procedure) ∷
    (codes "QUERY", k.Query) ∷
    (codes "REAL", k.Real) ∷
    (codes "REFERENCE", k.Reference) ∷
    (codes "REMOVE", k.Remove) ∷
    (codes "REPEAT", k.Repeat) ∷
    (codes "RETURN", k.Return) ∷
    (codes "ROLESOF", k.RolesOf) ∷
    (codes "RULE", k.Rule) ∷
    (codes "SCHEMA", k.Schema) ∷
    (codes "SELECT", k.Select) ∷
    (codes "SELF", k.Itself) ∷
    (codes "SET", k.Set) ∷
    (codes "SIN", k.Sin) ∷
    (codes "SIZEOF", k.SizeOf) ∷
    (codes "SKIP", k.Skip) ∷
    (codes "SQRT", k.Sqrt) ∷
    (codes "STRING", k.String) ∷
    (codes "SUBTYPE", k.Subtype) ∷
    (codes "SUPERTYPE", k.Supertype) ∷
    (codes "TAN", k.Tan) ∷
    (codes "THEN", k.Then) ∷
    (codes "TO", k.To) ∷
    (codes "TRUE", k.True) ∷
    (codes "TYPE", k.Type) ∷
    (codes "TYPEOF", k.TypeOf) ∷
    (codes "UNIQUE", k.Unique) ∷
    (codes "UNKNOWN", k.Unknown) ∷
    (codes "UNTIL", k.Until) ∷
    (codes "USE", k.Use) ∷
    (codes "USEDIN", k.UsedIn) ∷
    (codes "VALUE", k.Value) ∷
    (codes "VALUE_IN", k.ValueIn) ∷
    (codes "VALUE_UNIQUE", k.ValueUnique) ∷
    (codes "WHERE", k.Where) ∷
    (codes "WHILE", k.While) ∷
    (codes "XOR", k.Xor) ∷
    []

-- the kind of the row whose word this is, in either case
abbrev pub kind_in : List Row → List ℕ → TokenKind
kind_in [] word = k.Identifier
kind_in (row ∷ rows) word = if str_eq_ignore_ascii_case row.0 word then row.1 else kind_in rows word

unfoldable pub kind_of : List ℕ → TokenKind
kind_of word = kind_in reserved word
