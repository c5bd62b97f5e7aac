pub mod Certificates
pub mod Health
pub mod Lines
pub mod Metrics
pub mod Report
pub mod VerdictLine
pub mod Written
pub use Rattle.rb_cert.specs.Judgement as CertJudgement
