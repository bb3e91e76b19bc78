-- What was told of a delivery is told of the reply to it.
use Rattle.std.proofs.Common.{◌≡◌, ℕ, List, [], ◌∷◌, true, Option, None, IfSome, Result, Ok, Err}
use Rattle.std.specs.Prelude.{IfOk, IfErr, OnOk}
use Rattle.std.specs.declared.io.Error.{Error}
use Rattle.std.specs.Io.KnownBytes.{Appends}
use Rattle.ex_types.specs.Checked.{Checked}
use Rattle.rp_files.specs.Files.{Held}
use Rattle.rp_config.specs.Loading.{schemas_at}
use Rattle.rp_plain.specs.declared.messages.Reply.{Reply}
use Rattle.rp_plain.specs.Plain.{Plain}
use Rattle.rp_plain.specs.Opening.{new_fault, opened}
use Rattle.rp_replies.specs.Replies.{line_of_reply}
use Rattle.rp_delivery.specs.Names.{me}
use Rattle.rp_delivery.specs.Requests.{is_refused}
use Rattle.rp_delivery.specs.Judged.{judgement_of}
use Rattle.rp_delivery.specs.Deliveries.{IsDelivered}
use Rattle.rp_program.specs.declared.ending.Done.{Done}
use Rattle.rp_program.specs.declared.ending.Done.TheVariants.{Validated}
use Rattle.rp_program.specs.declared.fault.Fault.{Fault}
use Rattle.rp_program.specs.declared.fault.Fault.TheVariants.{Start, Read, Write, Refused, Page, Listen, Serve, Unsaved}
use Rattle.rp_program.specs.Faults.{EndsBy}
use Rattle.rp_program.specs.Validations.{IsValidated}

module _ (files : Option Held) (schema_paths paths : List (List ℕ)) (schemas lent slice : List Checked) (partners : List (List ℕ)) (r : Plain) (reply : Reply)
    (are : IfSome files (λ held. schemas_at held schema_paths ≡ Ok schemas)) (same : lent ≡ schemas) (here : slice ≡ schemas) (mine : partners ≡ me ∷ []) (opens : new_fault lent partners ≡ None)
    (content : r ≡ opened lent partners) (is : IsDelivered files r slice paths reply) where
  validated : (Told : Reply → Type 0) → Told reply → IsValidated files schema_paths paths Told
  validated Told told = record {
    schemas = schemas;
    are = are;
    opens = rw (same, mine) at opens;
    reply = reply;
    is = rw (content, same, here, mine) at is;
    told = told;
  }

  pub verdict_told : {E : Type 0} (o : Result Done E) → IfOk o (λ done. done ≡ Validated (judgement_of reply)) → IfOk o (λ done. IsValidated files schema_paths paths (λ answer. done ≡ Validated (judgement_of answer)))
  verdict_told (Err e) told = tt
  verdict_told (Ok done) told = validated (λ answer. done ≡ Validated (judgement_of answer)) told

  pub faults_told : (Unwritten : Type 0) (Unpaged : List ℕ → Error → Type 0) (o : Result Done Fault) → IfErr o (λ fault. EndsBy Unwritten (is_refused reply ≡ true) Unpaged fault)
      → IfErr o (λ fault. EndsBy Unwritten (IsValidated files schema_paths paths (λ answer. is_refused answer ≡ true)) Unpaged fault)
  faults_told Unwritten Unpaged (Ok done) told = tt
  faults_told Unwritten Unpaged (Err (Start why)) told = told
  faults_told Unwritten Unpaged (Err Read) told = told
  faults_told Unwritten Unpaged (Err Write) told = told
  faults_told Unwritten Unpaged (Err (Refused path words)) told = validated (λ answer. is_refused answer ≡ true) told
  faults_told Unwritten Unpaged (Err (Page path error)) told = told
  faults_told Unwritten Unpaged (Err (Listen at error)) told = told
  faults_told Unwritten Unpaged (Err (Serve fault)) told = told
  faults_told Unwritten Unpaged (Err (Unsaved why)) told = told

  module _ (before after : Option (List ℕ)) where
    pub line_told : {E : Type 0} (o : Result Done E) → IfOk o (λ done. done ≡ Validated (judgement_of reply)) → OnOk o (Appends before after (line_of_reply reply))
        → IfOk o (λ done. IsValidated files schema_paths paths (λ answer. (done ≡ Validated (judgement_of answer)) × Appends before after (line_of_reply answer)))
    line_told (Err e) told line = tt
    line_told (Ok done) told line = validated (λ answer. (done ≡ Validated (judgement_of answer)) × Appends before after (line_of_reply answer)) (told, line)

    pub refusal_told : (is_refused reply ≡ true) × Appends before after (line_of_reply reply) → IsValidated files schema_paths paths (λ answer. (is_refused answer ≡ true) × Appends before after (line_of_reply answer))
    refusal_told told = validated (λ answer. (is_refused answer ≡ true) × Appends before after (line_of_reply answer)) told
