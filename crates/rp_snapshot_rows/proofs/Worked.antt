-- What is written of some rows, byte for byte.
use Rattle.std.proofs.Common.{◌≡◌, [], ◌∷◌, codes, refl}
use Rattle.std.specs.Fmt.{digits}
use Rattle.json.specs.Print.{escape_byte}
use Rattle.serde_json.specs.Written.{compact_text}
use Rattle.rp_content.specs.Headers.{default_header}
use Rattle.rp_rows.specs.declared.rows.Level.TheVariants.{Read, Group, Write}
use Rattle.rp_rows.specs.Rows.{key_of, Model, GroupRow}
use Rattle.rp_snapshot_rows.specs.Written.{model_data, group_data}

-- ann's model, which bob may list in groups, and carl may write
abbrev of_ann : Model
of_ann = record {
  owner = codes "ann";
  name = codes "m";
  holds = record { schema = codes "T"; greatest = 2; content = record { header = default_header; instances = []; links = [] } };
  grants = record { partner = codes "bob"; level = Group } ∷ record { partner = codes "carl"; level = Write } ∷ [];
}

model_with_grants : compact_text (model_data (codes "DATA;\n#1=P(1.E-1,'\"\\');\n") of_ann)
    ≡ codes "{\"file\":\"DATA;\\n#1=P(1.E-1,'\\\"\\\\');\\n\",\"grants\":[[\"bob\",\"group\"],[\"carl\",\"write\"]],\"greatest\":2,\"links\":[],\"name\":\"m\",\"owner\":\"ann\",\"schema\":\"T\"}"
unfolding escape_byte digits
model_with_grants = refl

-- bob's model, which links to ann's
abbrev of_bob : Model
of_bob = record {
  owner = codes "bob";
  name = codes "b";
  holds = record {
    schema = codes "T";
    greatest = 999999999999999999;
    content = record { header = default_header; instances = []; links = record { name = 9; owner = codes "ann"; model = codes "m"; target = 1 } ∷ [] };
  };
  grants = record { partner = codes "ann"; level = Read } ∷ [];
}

model_with_link : compact_text (model_data [] of_bob)
    ≡ codes "{\"file\":\"\",\"grants\":[[\"ann\",\"read\"]],\"greatest\":999999999999999999,\"links\":[{\"instance\":1,\"model\":\"m\",\"name\":9,\"owner\":\"ann\"}],\"name\":\"b\",\"owner\":\"bob\",\"schema\":\"T\"}"
unfolding escape_byte digits
model_with_link = refl

-- bob's group, which ann may read, and which lists two models
abbrev group_of_bob : GroupRow
group_of_bob = record {
  owner = codes "bob";
  name = codes "g";
  holds = record { schema = codes "T"; members = key_of (codes "ann") (codes "m") ∷ key_of (codes "bob") (codes "b") ∷ [] };
  grants = record { partner = codes "ann"; level = Read } ∷ [];
}

group_with_members : compact_text (group_data group_of_bob)
    ≡ codes "{\"grants\":[\"ann\"],\"members\":[[\"ann\",\"m\"],[\"bob\",\"b\"]],\"name\":\"g\",\"owner\":\"bob\",\"schema\":\"T\"}"
unfolding escape_byte
group_with_members = refl
