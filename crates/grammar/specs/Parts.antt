-- The parts of the grammar: which tokens spell what.
use Rattle.std.specs.Prelude.{◌≡◌, ◌⊎◌, Bool, true, false, List, [], ◌∷◌, Option, Some, None}
use Rattle.tokens.specs.declared.reserved.Reserved.{Reserved}
use Rattle.tokens.specs.declared.token.Kind.{Kind}
use Rattle.tokens.specs.declared.token.Kind.TheVariants as k
use Rattle.tokens.specs.declared.token.Token.{Token}
use Rattle.lexical.specs.declared.place.Place.{Place}
use Rattle.source_tree.specs.declared.name.Name.{Name}

-- A part of a text, by the tokens from where it begins and the tokens from where it ends.
abbrev pub Part : Type 1
Part = List Token → List Token → Type 0

infixr 20 ◌then◌
abbrev pub ◌then◌ : Part → Part → Part
p then q = λ from rest. (middle : List Token) × p from middle × q middle rest

infixr 25 ◌or◌
abbrev pub ◌or◌ : Part → Part → Part
p or q = λ from rest. p from rest ⊎ q from rest

-- Nothing, where p does not stand.
abbrev pub absence_of : Part → Part
absence_of p = λ from rest. (from ≡ rest) × ((after : List Token) → p from after → ⊥)

-- `[p]`: it is left out only where it does not stand.
abbrev pub optional : Part → Part
optional p = p or absence_of p

-- `[p]`, told by whether it is left out
abbrev pub left_out : Part → Bool → Part
left_out p true = absence_of p
left_out p false = p

-- `[p]`, told by whether it stands
abbrev pub optional_part : Part → Bool → Part
optional_part p true = p
optional_part p false = absence_of p

-- p, whatever it is a part of
abbrev pub some_of : {A : Type 0} → (A → Part) → Part
some_of {A = A} p = λ from rest. (one : A) × p one from rest

abbrev pub nowhere : Part
nowhere = λ from rest. ⊥

-- p, where q does not stand
infixr 25 ◌but◌
abbrev pub ◌but◌ : Part → Part → Part
p but q = λ from rest. p from rest × ((after : List Token) → q from after → ⊥)

-- What passes a test begins here; how far it goes isn't said.
abbrev pub lookahead : (List Token → Bool) → Part
lookahead begins = λ from rest. begins from ≡ true

-- `p...`: any number, up to where no more can begin. `begin` is how one begins.
abbrev pub any : {A : Type 0} → (A → Part) → Part → List A → Part
any p begin [] = absence_of begin
any p begin (one ∷ more) = p one then any p begin more

-- `p...`: one or more, up to where no more can begin.
abbrev pub several : {A : Type 0} → (A → Part) → Part → List A → Part
several p begin [] = nowhere
several p begin (one ∷ more) = p one then any p begin more

-- ---- parts of one token

-- A token of this kind.
abbrev pub token : Kind → Part
token kind = λ from rest. (one : Token) × (from ≡ one ∷ rest) × (one.kind ≡ kind)

abbrev pub word : Reserved → Part
word one = token (k.Reserved one)

abbrev pub period : Part
period = token k.Period

-- Reserved words and a period: the heading of a division, a section or a paragraph of fixed name.
abbrev pub heading : List Reserved → Part
heading [] = period
heading (one ∷ more) = word one then heading more

-- A token that `tells` this.
abbrev pub token_with : {A : Type 0} → (Token → Option A) → A → Part
token_with tells a = λ from rest. (one : Token) × (from ≡ one ∷ rest) × (tells one ≡ Some a)

abbrev pub is_told : {A : Type 0} → Option A → Bool
is_told None = false
is_told (Some a) = true

abbrev pub begins_telling : {A : Type 0} → (Token → Option A) → List Token → Bool
begins_telling tells [] = false
begins_telling tells (one ∷ more) = is_told (tells one)

-- ---- places

abbrev pub place_at : List Token → Option Place
place_at [] = None
place_at (one ∷ more) = Some one.place

-- What follows begins at this place.
abbrev pub here : Place → Part
here place = λ from rest. (from ≡ rest) × (place_at from ≡ Some place)

-- a verb, with the place where it stands
abbrev pub verb : Reserved → Place → Part
verb one place = here place then word one

-- ---- names

-- A user-defined word in upper case is a name (COBOL-85, Nucleus, "User-defined words").
abbrev pub named_by : Kind → Place → Option Name
named_by (k.Word characters) place = Some (record { characters = characters; place = place })
named_by _ place = None

abbrev pub name_in : Token → Option Name
name_in one = named_by one.kind one.place

abbrev pub name : Name → Part
name = token_with name_in

abbrev pub begins_name : List Token → Bool
begins_name = begins_telling name_in
