-- What a JSON value reads as, part by part. A number too large for a float is the one thing in it that may keep it from being read.
use Rattle.std.specs.Prelude.{◌&&◌, Bool, true, is_some}
use Rattle.std.specs.Option.{option_map_or}
use Rattle.json.specs.Json as json
use Rattle.serde_json.specs.Data.{Data, null, boolean, number, string, array, object, Items, no_items, item, Members, no_members, put}
use Rattle.serde_json.specs.Read.{number_of}

-- whether no number in it is too large for a float
abbrev mutual
  pub fits : json.Json → Bool
  fits json.null = true
  fits (json.boolean b) = true
  fits (json.number s) = is_some (number_of s)
  fits (json.string s) = true
  fits (json.array js) = items_fit js
  fits (json.object ms) = members_fit ms

  pub items_fit : json.Items → Bool
  items_fit json.no_items = true
  items_fit (json.item j js) = fits j && items_fit js

  pub members_fit : json.Members → Bool
  members_fit json.no_members = true
  members_fit (json.member k j ms) = fits j && members_fit ms

-- its data; of two members of one name the last one stays, and a number too large for a float is null
abbrev mutual
  pub data_of : json.Json → Data
  data_of json.null = null
  data_of (json.boolean b) = boolean b
  data_of (json.number s) = option_map_or number (number_of s) null
  data_of (json.string s) = string s
  data_of (json.array js) = array (items_data js)
  data_of (json.object ms) = object (members_data ms no_members)

  pub items_data : json.Items → Items
  items_data json.no_items = no_items
  items_data (json.item j js) = item (data_of j) (items_data js)

  -- the members go in behind those that were found before
  pub members_data : json.Members → Members → Members
  members_data json.no_members found = found
  members_data (json.member k j ms) found = members_data ms (put k (data_of j) found)
