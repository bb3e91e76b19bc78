use Rattle.std.proofs.Common.{◌≡◌, ◌++◌, bytes_eq, ap, ◌∙◌, sym}
use Rattle.rp_snapshot_texts.specs.Texts.{first_line, rows_text}
use Rattle.rp_snapshot_texts.specs.Pieces.{before_groups, between, foot, group_pieces, model_pieces}
use Rattle.rp_snapshot_texts.proofs.PieceLemmas.{in_pieces}
use Rattle.rp_snapshot_texts.proofs.CompareLemmas.{left_behind, told, when_none, when_some}
use Rattle.rp_snapshot_texts.proofs.comparing.is_text_of.Goals as goal

pub returns-in_default : goal.returns-in_default
returns-in_default g c is =
    let version = g.V.Version.number c.args.version.now in
    let file = g.V.Version.writes c.args.version.now in
    let line = first_line version in
    let groups = group_pieces c.args.groups.now.rows in
    let models = model_pieces file c.args.models.now.rows in
    let cut = in_pieces version file c.args.groups.now.rows c.args.models.now.rows in
    c.in_default.ensures (before_groups ++ (groups ++ (between ++ (models ++ foot)))) (is ∙ cut ∙ ap (λ l. l ++ (before_groups ++ (groups ++ (between ++ (models ++ foot))))) (sym c.first_line.ensures))

pub returns-in_default-behind : goal.returns-in_default-behind
returns-in_default-behind g c is =
    let version = g.V.Version.number c.args.version.now in
    let file = g.V.Version.writes c.args.version.now in
    let line = first_line version in
    let groups = group_pieces c.args.groups.now.rows in
    let models = model_pieces file c.args.models.now.rows in
    let cut = in_pieces version file c.args.groups.now.rows c.args.models.now.rows in
    let front : c.args.bytes.now ≡ line ++ c.in-Some.left.now = c.in-Some.ensures ∙ ap (λ l. l ++ c.in-Some.left.now) c.first_line.ensures in
    let one = left_behind line (before_groups ++ (groups ++ (between ++ (models ++ foot)))) c.args.bytes.now c.in-Some.left.now front (is ∙ cut) in
    c.in_default-behind.ensures (groups ++ (between ++ (models ++ foot))) one

pub returns-in_default-2 : goal.returns-in_default-2
returns-in_default-2 g c is =
    let version = g.V.Version.number c.args.version.now in
    let file = g.V.Version.writes c.args.version.now in
    let line = first_line version in
    let groups = group_pieces c.args.groups.now.rows in
    let models = model_pieces file c.args.models.now.rows in
    let cut = in_pieces version file c.args.groups.now.rows c.args.models.now.rows in
    let front : c.args.bytes.now ≡ line ++ c.in-Some.left.now = c.in-Some.ensures ∙ ap (λ l. l ++ c.in-Some.left.now) c.first_line.ensures in
    let one = left_behind line (before_groups ++ (groups ++ (between ++ (models ++ foot)))) c.args.bytes.now c.in-Some.left.now front (is ∙ cut) in
    let two = left_behind before_groups (groups ++ (between ++ (models ++ foot))) c.in-Some.left.now c.in-Some-behind.left.now c.in-Some-behind.ensures one in
    when_none _ _ c.in_ok-left.field-0 c.in_default-2.is c.in_ok-left.ensures (between ++ (models ++ foot)) two

pub returns-in_default-behind-2 : goal.returns-in_default-behind-2
returns-in_default-behind-2 g c is =
    let version = g.V.Version.number c.args.version.now in
    let file = g.V.Version.writes c.args.version.now in
    let line = first_line version in
    let groups = group_pieces c.args.groups.now.rows in
    let models = model_pieces file c.args.models.now.rows in
    let cut = in_pieces version file c.args.groups.now.rows c.args.models.now.rows in
    let front : c.args.bytes.now ≡ line ++ c.in-Some.left.now = c.in-Some.ensures ∙ ap (λ l. l ++ c.in-Some.left.now) c.first_line.ensures in
    let one = left_behind line (before_groups ++ (groups ++ (between ++ (models ++ foot)))) c.args.bytes.now c.in-Some.left.now front (is ∙ cut) in
    let two = left_behind before_groups (groups ++ (between ++ (models ++ foot))) c.in-Some.left.now c.in-Some-behind.left.now c.in-Some-behind.ensures one in
    let grouped = when_some _ _ c.in_ok-left.field-0 c.in-Some-2.left c.in-Some-2.is c.in_ok-left.ensures in
    let three = left_behind groups (between ++ (models ++ foot)) c.in-Some-behind.left.now c.in-Some-2.left.now grouped two in
    c.in_default-behind-2.ensures (models ++ foot) three

pub returns-in_default-3 : goal.returns-in_default-3
returns-in_default-3 g c is =
    let version = g.V.Version.number c.args.version.now in
    let file = g.V.Version.writes c.args.version.now in
    let line = first_line version in
    let groups = group_pieces c.args.groups.now.rows in
    let models = model_pieces file c.args.models.now.rows in
    let cut = in_pieces version file c.args.groups.now.rows c.args.models.now.rows in
    let front : c.args.bytes.now ≡ line ++ c.in-Some.left.now = c.in-Some.ensures ∙ ap (λ l. l ++ c.in-Some.left.now) c.first_line.ensures in
    let one = left_behind line (before_groups ++ (groups ++ (between ++ (models ++ foot)))) c.args.bytes.now c.in-Some.left.now front (is ∙ cut) in
    let two = left_behind before_groups (groups ++ (between ++ (models ++ foot))) c.in-Some.left.now c.in-Some-behind.left.now c.in-Some-behind.ensures one in
    let grouped = when_some _ _ c.in_ok-left.field-0 c.in-Some-2.left c.in-Some-2.is c.in_ok-left.ensures in
    let three = left_behind groups (between ++ (models ++ foot)) c.in-Some-behind.left.now c.in-Some-2.left.now grouped two in
    let four = left_behind between (models ++ foot) c.in-Some-2.left.now c.in-Some-behind-2.left.now c.in-Some-behind-2.ensures three in
    when_none _ _ c.in_ok-left-2.field-0 c.in_default-3.is c.in_ok-left-2.ensures foot four

pub returns : goal.returns
returns g c =
    let version = g.V.Version.number c.args.version.now in
    let file = g.V.Version.writes c.args.version.now in
    let line = first_line version in
    let groups = group_pieces c.args.groups.now.rows in
    let models = model_pieces file c.args.models.now.rows in
    let cut = in_pieces version file c.args.groups.now.rows c.args.models.now.rows in
    let front : c.args.bytes.now ≡ line ++ c.in-Some.left.now = c.in-Some.ensures ∙ ap (λ l. l ++ c.in-Some.left.now) c.first_line.ensures in
    let grouped = when_some _ _ c.in_ok-left.field-0 c.in-Some-2.left c.in-Some-2.is c.in_ok-left.ensures in
    let modelled = when_some _ _ c.in_ok-left-2.field-0 c.in-Some-3.left c.in-Some-3.is c.in_ok-left-2.ensures in
    let rest = c.in-Some-3.left.now in
    told (c.args.bytes.now ≡ rows_text version file c.args.groups.now.rows c.args.models.now.rows) c.eq.result rest foot (c.eq.ensures ∙ ap (bytes_eq rest) c.as_slice.ensures)
    (λ is.
    let models_are = modelled ∙ ap (λ l. models ++ l) is in
    let between_is = c.in-Some-behind-2.ensures ∙ ap (λ l. between ++ l) models_are in
    let groups_are = grouped ∙ ap (λ l. groups ++ l) between_is in
    let body = c.in-Some-behind.ensures ∙ ap (λ l. before_groups ++ l) groups_are in
    front ∙ ap (λ l. line ++ l) body ∙ sym cut)
    (λ is.
    let one = left_behind line (before_groups ++ (groups ++ (between ++ (models ++ foot)))) c.args.bytes.now c.in-Some.left.now front (is ∙ cut) in
    let two = left_behind before_groups (groups ++ (between ++ (models ++ foot))) c.in-Some.left.now c.in-Some-behind.left.now c.in-Some-behind.ensures one in
    let three = left_behind groups (between ++ (models ++ foot)) c.in-Some-behind.left.now c.in-Some-2.left.now grouped two in
    let four = left_behind between (models ++ foot) c.in-Some-2.left.now c.in-Some-behind-2.left.now c.in-Some-behind-2.ensures three in
    left_behind models foot c.in-Some-behind-2.left.now rest modelled four)
