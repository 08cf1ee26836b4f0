-- What a JSON value reads as, and the members of its objects.
use Rattle.std.proofs.Common.{◌≡◌, ℕ, Bool, true, false, cond, ◌&&◌, List, [], ◌∷◌, Option, Some, None, option_map, option_and_then, is_some, refl, sym, ap, ◌∙◌}
use Rattle.std.specs.Option.{option_or, option_map_or}
use Rattle.std.specs.Str.{bytes_eq}
use Rattle.std.proofs.lemmas.Slice.Eq.{bytes_eq-Decides}
use Rattle.json.specs.Json as json
use Rattle.json.specs.Token.{Token}
use Rattle.json.specs.Find as found
use Rattle.serde_json.specs.Data.{Num, Data, null, number, array, object, Items, item, Members, no_members, put}
use Rattle.serde_json.specs.Find.{get, get_member}
use Rattle.serde_json.specs.Read.{number_of, of_json, of_items, of_members, max_depth}
use Rattle.serde_json.proofs.Views.{get_member-put, get_member-put_other}
use Rattle.kola_load.specs.Calls.{read_of}
use Rattle.kola_load.specs.JsonData.{fits, items_fit, members_fit, data_of, items_data, members_data}

-- ---- a value reads as its data, where its numbers are not too large

read_number : (o : Option Num) → option_map number o ≡ cond (is_some o) (Some (option_map_or number o null)) None
read_number None = refl
read_number (Some n) = refl

read_within : {A B : Type 0} (f : A → B) (b : Bool) (x : A) → option_map f (cond b (Some x) None) ≡ cond b (Some (f x)) None
read_within f true x = refl
read_within f false x = refl

read_item : (a b : Bool) (x : Data) (y : Items) → option_and_then (λ d. option_map (item d) (cond b (Some y) None)) (cond a (Some x) None) ≡ cond (a && b) (Some (item x y)) None
read_item true b x y = read_within (item x) b y
read_item false b x y = refl

read_member : (a b : Bool) (x : Data) (f : Data → Option Members) (y : Members) → f x ≡ cond b (Some y) None → option_and_then f (cond a (Some x) None) ≡ cond (a && b) (Some y) None
read_member true b x f y e = e
read_member false b x f y e = refl

mutual
  pub reads_as : (j : json.Json) → of_json j ≡ cond (fits j) (Some (data_of j)) None
  reads_as json.null = refl
  reads_as (json.boolean b) = refl
  reads_as (json.number s) = read_number (number_of s)
  reads_as (json.string s) = refl
  reads_as (json.array js) = ap (option_map array) (items_read_as js) ∙ read_within array (items_fit js) (items_data js)
  reads_as (json.object ms) = ap (option_map object) (members_read_as ms no_members) ∙ read_within object (members_fit ms) (members_data ms no_members)

  items_read_as : (js : json.Items) → of_items js ≡ cond (items_fit js) (Some (items_data js)) None
  items_read_as json.no_items = refl
  items_read_as (json.item j js) =
      ap (option_and_then (λ d. option_map (item d) (of_items js))) (reads_as j)
      ∙ ap (λ o. option_and_then (λ d. option_map (item d) o) (cond (fits j) (Some (data_of j)) None)) (items_read_as js)
      ∙ read_item (fits j) (items_fit js) (data_of j) (items_data js)

  members_read_as : (ms : json.Members) (before : Members) → of_members ms before ≡ cond (members_fit ms) (Some (members_data ms before)) None
  members_read_as json.no_members before = refl
  members_read_as (json.member k j ms) before =
      ap (option_and_then (λ d. of_members ms (put k d before))) (reads_as j)
      ∙ read_member (fits j) (members_fit ms) (data_of j) (λ d. of_members ms (put k d before)) (members_data ms (put k (data_of j) before)) (members_read_as ms (put k (data_of j) before))

-- ---- a value that is read, and the tokens behind it

some_within : {A : Type 0} (b : Bool) (x : A) → is_some (cond b (Some x) None) ≡ b
some_within true x = refl
some_within false x = refl

pub reads_where_fits : (j : json.Json) → is_some (of_json j) ≡ fits j
reads_where_fits j = ap is_some (reads_as j) ∙ some_within (fits j) (data_of j)

pub whole_reads_as : (j : json.Json) (r : List Token) → option_and_then of_json (json.if_last j r) ≡ cond (is_some (option_and_then of_json (json.if_last j r))) (Some (data_of j)) None
whole_reads_as j [] = reads_as j ∙ ap (λ b. cond b (Some (data_of j)) None) (sym (reads_where_fits j))
whole_reads_as j (t ∷ r) = refl

pub read_whole : (ts r : List Token) (j : json.Json) (b : Bool) → json.value max_depth ts ≡ Some (j, r) → b ≡ is_some (option_and_then of_json (json.if_last j r)) → read_of ts ≡ cond b (Some (data_of j)) None
read_whole ts r j b e h =
    ap (λ o. option_and_then of_json (option_and_then (λ p. json.if_last p.0 p.1) o)) e ∙ whole_reads_as j r ∙ ap (λ c. cond c (Some (data_of j)) None) (sym h)

-- ---- the member of a name is the last one

put_member : (n k : List ℕ) (d : Data) (before : Members) (b : Bool) → bytes_eq k n ≡ b → get_member n (put k d before) ≡ cond b (Some d) (get_member n before)
put_member n k d before true e = ap (λ m. get_member m (put k d before)) (sym ((bytes_eq-Decides k n).0 e)) ∙ get_member-put k d before
put_member n k d before false e = get_member-put_other n k d before (λ h. absurd (let y = (bytes_eq-Decides k n).1 (sym h) in cc))

or_later : (later : Option json.Json) (b : Bool) (j : json.Json) (rest : Option Data)
    → option_or (option_map data_of later) (cond b (Some (data_of j)) rest) ≡ option_or (option_map data_of (found.later_or later (cond b (Some j) None))) rest
or_later None true j rest = refl
or_later None false j rest = refl
or_later (Some x) b j rest = refl

member_data : (n : List ℕ) (ms : json.Members) (before : Members) → get_member n (members_data ms before) ≡ option_or (option_map data_of (found.get_member n ms)) (get_member n before)
member_data n json.no_members before = refl
member_data n (json.member k j ms) before =
    member_data n ms (put k (data_of j) before)
    ∙ ap (option_or (option_map data_of (found.get_member n ms))) (put_member n k (data_of j) before (bytes_eq k n) refl)
    ∙ or_later (found.get_member n ms) (bytes_eq k n) j (get_member n before)

none_before : (o : Option Data) → option_or o None ≡ o
none_before None = refl
none_before (Some d) = refl

pub get_data : (n : List ℕ) (j : json.Json) → option_map data_of (found.get n j) ≡ get n (data_of j)
get_data n json.null = refl
get_data n (json.boolean b) = refl
get_data n (json.number s) = at (number_of s)
  where
    at : (o : Option Num) → None ≡ get n (option_map_or number o null)
    at None = refl
    at (Some x) = refl
get_data n (json.string s) = refl
get_data n (json.array js) = refl
get_data n (json.object ms) = sym (member_data n ms no_members ∙ none_before (option_map data_of (found.get_member n ms)))
